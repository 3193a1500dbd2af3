pub mod Keys
pub mod Order
pub mod Longest
pub mod Equality
pub mod KeyOrder
pub mod Words
