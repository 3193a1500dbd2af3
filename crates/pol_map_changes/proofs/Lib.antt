pub mod Said
pub mod Counting
pub mod Differences
pub mod Merging
pub mod Making
pub mod LeavingOut
pub mod Searching
