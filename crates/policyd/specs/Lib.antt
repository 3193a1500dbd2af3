pub mod Ends
pub mod Headline
pub mod Task
pub mod PlayEnds
