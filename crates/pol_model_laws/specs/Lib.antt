pub mod Examples
pub mod Holding
pub mod Keeps
pub mod MapFacts
pub mod Valid
pub mod WithoutFaults
pub mod WorkedMaps
