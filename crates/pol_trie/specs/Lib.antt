pub mod PortMap
pub mod PolicyMap
pub mod PortNode
pub mod Tree
pub mod Links
pub mod Standing
pub mod KeySet
pub mod Roots
