pub mod Tables
pub mod Queue
pub mod Numbered
pub mod Tied
