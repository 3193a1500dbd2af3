pub mod CutLines
pub mod InBlocks
pub mod Returned
pub mod TwoParts
