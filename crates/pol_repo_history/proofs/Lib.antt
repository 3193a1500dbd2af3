pub mod AtHistory
pub mod Unlimited
