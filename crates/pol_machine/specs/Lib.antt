pub mod Double
pub mod Rows
pub mod Parts
pub mod Stands
pub mod Full
pub mod Short
pub mod Serial
pub mod Cost
