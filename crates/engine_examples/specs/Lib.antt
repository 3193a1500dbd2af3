pub mod Filters
pub mod Peers
