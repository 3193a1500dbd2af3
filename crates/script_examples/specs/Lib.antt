pub mod Answers
pub mod Commands
pub mod Endpoints
pub mod Printed
pub mod Rules
pub mod Values
