pub mod ReadAgain
pub mod AsRead
