pub mod Numbered
pub mod ToldByParts
