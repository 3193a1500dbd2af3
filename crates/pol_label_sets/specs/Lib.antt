pub mod Carried
pub mod Filed
