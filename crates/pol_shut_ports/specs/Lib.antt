pub mod Shut
pub mod Pairs
