pub mod PeerRows
pub mod Known
pub mod OfState
