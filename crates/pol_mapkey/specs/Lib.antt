pub mod KeyProto
pub mod MapKey
pub mod Entries
