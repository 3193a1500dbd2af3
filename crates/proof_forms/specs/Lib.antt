pub mod Clauses
pub mod Faults
pub mod Lists
pub mod Maps
pub mod Parts
pub mod Texts
pub mod Walks
