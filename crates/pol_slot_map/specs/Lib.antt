pub mod Base
pub mod Renewed
pub mod Follow
pub mod Followed
