pub mod Causes
pub mod Cost
pub mod Inside
pub mod Repository
