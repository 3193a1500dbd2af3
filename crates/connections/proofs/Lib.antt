pub mod Writing
pub mod Telling
