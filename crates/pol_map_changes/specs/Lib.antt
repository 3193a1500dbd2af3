pub mod Changes
pub mod Merged
pub mod LeftOut
pub mod Laws
