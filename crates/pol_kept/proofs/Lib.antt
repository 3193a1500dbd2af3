pub mod Records
pub mod Machines
pub mod Others
pub mod Asked
pub mod Disks
pub mod Openings
mod Plans
