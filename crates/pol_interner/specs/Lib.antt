pub mod Slots
pub mod Tied
