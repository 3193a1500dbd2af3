pub mod TakenBytes
pub mod SentBytes
