pub mod Conditions
pub mod Held
pub mod Hints
pub mod Histories
pub mod Rounds
pub mod Sessions
pub mod Steps
