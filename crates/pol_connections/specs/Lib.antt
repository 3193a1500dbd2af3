pub mod Regions
pub mod Ends
pub mod Connections
pub mod Examples
