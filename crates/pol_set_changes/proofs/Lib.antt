pub mod Chained
pub mod Counted
pub mod Differences
pub mod Surplus
pub mod LogLemmas
pub mod NetLemmas
pub mod Recording
pub mod Walk
