pub mod Distinct
pub mod Equality
pub mod NoPorts
pub mod Sections
