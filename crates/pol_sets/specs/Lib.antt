pub mod Blocks
pub mod Ids
pub mod IdSet
pub mod Inside
pub mod Sets
