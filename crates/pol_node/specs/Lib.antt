pub mod Finish
pub mod Desk
pub mod Slot
pub mod Kept
pub mod KeptAfter
pub mod Lost
pub mod TakenFor
