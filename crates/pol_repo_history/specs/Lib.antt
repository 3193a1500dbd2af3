pub mod AtHistory
