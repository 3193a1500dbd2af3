pub mod Names
pub mod ByName
pub mod RowOf
pub mod Held
