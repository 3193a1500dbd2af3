pub mod Covers
pub mod DefaultDeny
pub mod Keys
pub mod Listed
pub mod Plain
pub mod Prefixes
pub mod Causes
