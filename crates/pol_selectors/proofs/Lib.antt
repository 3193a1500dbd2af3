pub mod LiveLists
pub mod Middle
pub mod Placed
pub mod Holding
pub mod Kept
