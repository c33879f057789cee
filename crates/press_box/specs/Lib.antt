pub mod Kept
pub mod Model
pub mod Refusals
pub mod Runs
