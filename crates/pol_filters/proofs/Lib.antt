pub mod Located
pub mod EnforcedBy
pub mod Explained
