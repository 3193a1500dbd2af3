pub mod Same
pub mod Front
pub mod Turns
pub mod Normal
