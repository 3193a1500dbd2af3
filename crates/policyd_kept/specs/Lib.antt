pub mod Ends
pub mod Served
pub mod Serving
pub mod Words
pub mod Acknowledged
