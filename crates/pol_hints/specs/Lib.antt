pub mod History
pub mod Shares
pub mod Queue
pub mod Passes
pub mod Inside
pub mod Serving
