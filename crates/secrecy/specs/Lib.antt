pub mod Seen
pub mod Promise
pub mod Checks
