pub mod Drill
pub mod Crashed
