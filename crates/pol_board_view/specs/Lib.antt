pub mod Answers
pub mod Rows
pub mod Changes
pub mod Room
