pub mod States
pub mod Promises
