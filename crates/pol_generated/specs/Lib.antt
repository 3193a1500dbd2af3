pub mod Asked
pub mod HistoryOfRounds
pub mod Maps
pub mod OneRun
pub mod Requests
