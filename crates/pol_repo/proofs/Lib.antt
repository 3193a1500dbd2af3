pub mod Agreeing
pub mod LabelPeers
pub mod Longest
pub mod Sides
pub mod Standing
pub mod Taking
pub mod Telling
