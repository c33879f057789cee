pub mod Stops
pub mod Stuck
pub mod Walks
