mod Deciding
mod Entries
mod ByName
mod Queues
mod Places
mod ByKey
pub mod NamedNumbers
mod InOrder
mod Addresses
mod Kept
