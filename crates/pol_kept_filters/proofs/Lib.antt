pub mod Rows
pub mod Unselected
