pub mod Calls
mod Keeping
pub mod Moments
pub mod Plans
pub mod Drills
