pub mod Loads
pub mod Running
