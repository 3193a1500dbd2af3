pub mod Committing
pub mod Starting
