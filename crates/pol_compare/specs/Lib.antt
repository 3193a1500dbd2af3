pub mod Parts
pub mod Finding
pub mod Text
