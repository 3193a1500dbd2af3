pub mod Gates
pub mod Logs
pub mod Ends
pub mod Reading
