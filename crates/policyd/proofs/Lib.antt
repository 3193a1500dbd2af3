pub mod ScriptRun
pub mod Tables
pub mod Drills
