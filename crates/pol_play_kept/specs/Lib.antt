pub mod Images
pub mod Answering
pub mod Played
pub mod Words
pub mod Calls
