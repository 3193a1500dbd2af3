pub mod Front
pub mod Numbered
pub mod Refiled
