pub mod Faults
pub mod Policies
pub mod Families
