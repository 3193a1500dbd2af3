pub mod Works
pub mod Given
pub mod Staying
pub mod Standing
pub mod Unmoved
