pub mod Numbers
pub mod Times
pub mod Counts
pub mod Counted
pub mod Sizes
pub mod Affected
pub mod Asking
pub mod Gathering
