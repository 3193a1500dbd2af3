pub mod Cutting
pub mod Renewing
pub mod Places
pub mod Stamps
pub mod Listing
pub mod Telling
pub mod Applying
pub mod Keeping
