pub mod Adding
pub mod Listing
pub mod Agreed
pub mod Worked
pub mod Relisting
pub mod AsRead
