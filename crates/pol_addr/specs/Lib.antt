pub mod Families
pub mod Address
pub mod Cidr
pub mod Prefix
pub mod Grammar
pub mod Text
pub mod Order
pub mod Longest
