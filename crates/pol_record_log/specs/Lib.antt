pub mod Records
pub mod Log
pub mod Steps
pub mod Examples
