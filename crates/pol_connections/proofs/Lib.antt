pub mod Regions
pub mod Names
