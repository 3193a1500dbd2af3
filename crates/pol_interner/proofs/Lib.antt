pub mod Added
pub mod FreePlaces
pub mod NumbersWhere
pub mod Shown
pub mod SlotAt
pub mod SlotLengths
pub mod TakenOut
