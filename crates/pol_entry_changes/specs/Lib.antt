pub mod Given
pub mod Balance
pub mod Told
pub mod PeerRow
pub mod OneId
