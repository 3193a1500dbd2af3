pub mod Equality
pub mod Every
pub mod Members
pub mod Filters
pub mod Counts
pub mod Ascending
