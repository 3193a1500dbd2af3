pub mod Answered
pub mod Hinted
pub mod Lines
pub mod NewNode
pub mod Seats
