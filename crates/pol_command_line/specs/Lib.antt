pub mod Grammar
pub mod Given
pub mod Options
