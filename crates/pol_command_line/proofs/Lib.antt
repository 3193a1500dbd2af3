pub mod Numbers
pub mod Fits
pub mod OptionsFit
