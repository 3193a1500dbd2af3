pub mod Grammar
pub mod Match
pub mod Order
pub mod LabelText
pub mod Same
pub mod SameLaws
pub mod WellFormed
