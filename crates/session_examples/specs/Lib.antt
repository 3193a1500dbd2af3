pub mod Machines
pub mod Serial
pub mod Stopped
pub mod Hints
