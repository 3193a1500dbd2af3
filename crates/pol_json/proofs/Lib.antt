pub mod Views
pub mod Steps
pub mod Turns
pub mod Looking
pub mod FirstFaults
pub mod Visits
pub mod Names
pub mod Keys
