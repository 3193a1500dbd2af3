pub mod OneSummary
pub mod Fields
pub mod Tallies
