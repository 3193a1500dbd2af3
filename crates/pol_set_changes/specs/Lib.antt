pub mod Ids
pub mod Log
pub mod Net
pub mod Nodes
pub mod Recorded
pub mod Sets
