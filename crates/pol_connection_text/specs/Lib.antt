pub mod Adds
pub mod Ends
pub mod Lines
pub mod Text
