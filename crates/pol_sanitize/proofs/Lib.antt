pub mod Numbers
pub mod Bound
pub mod Found
pub mod Bindings
pub mod Wholeness
pub mod Formed
pub mod FirstFaults
pub mod PolicyFaults
