pub mod Said
pub mod Ranges
pub mod Walk
pub mod Examples
