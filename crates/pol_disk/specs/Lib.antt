pub mod Images
pub mod Calls
pub mod Record
pub mod MemDisk
pub mod Kept
pub mod Past
