pub mod Selecting
pub mod Formed
pub mod Taking
pub mod Porting
pub mod Kept
pub mod ReadKept
