pub mod Holding
pub mod Telling
pub mod Fitting
pub mod Lending
