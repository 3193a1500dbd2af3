pub mod Numbering
pub mod References
