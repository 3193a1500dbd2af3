pub mod Held
pub mod Sharing
