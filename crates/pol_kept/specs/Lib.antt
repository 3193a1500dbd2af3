pub mod Errors
pub mod Keeps
pub mod Kept
pub mod Calls
