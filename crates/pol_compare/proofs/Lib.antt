pub mod Cutting
pub mod OneFinding
