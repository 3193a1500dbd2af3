pub mod Prepared
pub mod Answer
pub mod Causes
