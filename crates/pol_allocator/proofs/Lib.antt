pub mod Apart
pub mod Coming
pub mod Going
pub mod Moving
pub mod Preparing
pub mod Sharing
