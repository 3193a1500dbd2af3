pub mod AscendingStates
pub mod Ascents
pub mod Histories
pub mod LabelLists
pub mod LeastFree
pub mod RowOrder
