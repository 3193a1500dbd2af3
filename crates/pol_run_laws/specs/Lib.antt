pub mod Placed
pub mod Session
pub mod Phases
pub mod Cut
pub mod Seats
pub mod HistoryOfRun
pub mod LawOfRuns
pub mod Examples
