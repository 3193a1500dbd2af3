pub mod Ending
pub mod Comparing
