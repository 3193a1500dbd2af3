pub mod Changes
pub mod Chained
pub mod Moves
pub mod Examples
