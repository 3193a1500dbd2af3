pub mod Added
pub mod Equality
pub mod Numbers
pub mod Refiled
pub mod Selected
