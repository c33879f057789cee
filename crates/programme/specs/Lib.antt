pub mod Spelled
pub mod Lookup
