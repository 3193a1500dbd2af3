pub mod Bytes
pub mod Edge
pub mod Fakes
pub mod Faults
