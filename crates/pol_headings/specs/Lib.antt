pub mod Heading
pub mod Stands
pub mod Filed
pub mod Tried
pub mod Inside
pub mod RefLaws
