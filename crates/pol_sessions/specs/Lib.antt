pub mod Sessions
pub mod Hinting
pub mod Again
