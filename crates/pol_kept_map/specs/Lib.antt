pub mod Work
pub mod Applies
pub mod Givers
pub mod Giving
pub mod Kept
pub mod Laws
