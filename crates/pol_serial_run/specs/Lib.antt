pub mod SerialRun
pub mod Accepted
pub mod Asking
pub mod Worked
pub mod WorkedLimits
