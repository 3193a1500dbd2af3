pub mod Starting
pub mod PolicyRows
pub mod Taking
pub mod Kept
