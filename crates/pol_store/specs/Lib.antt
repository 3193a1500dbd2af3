pub mod Store
pub mod Parts
pub mod PolicyParts
pub mod Inside
pub mod Takes
