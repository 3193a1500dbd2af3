pub mod Answered
pub mod Found
pub mod Kubectl
pub mod Script
