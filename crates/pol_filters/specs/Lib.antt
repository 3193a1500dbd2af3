pub mod Resolved
pub mod FilterParts
pub mod Said
