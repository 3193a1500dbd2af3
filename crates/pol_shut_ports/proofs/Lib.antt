pub mod Between
pub mod Open
pub mod Places
pub mod Found
