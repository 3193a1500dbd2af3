pub mod Tables
pub mod Beyond
pub mod Coming
pub mod Going
pub mod AddressTable
