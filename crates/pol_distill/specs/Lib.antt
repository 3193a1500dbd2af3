pub mod Sorted
pub mod Passing
pub mod RawKeys
pub mod Distilled
pub mod Indexed
