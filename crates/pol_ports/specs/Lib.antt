pub mod Direction
pub mod Proto
pub mod PortRange
pub mod PortPrefix
pub mod Split
