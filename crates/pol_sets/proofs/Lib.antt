pub mod IdLemmas
pub mod Between
pub mod Parted
pub mod Compared
pub mod Search
