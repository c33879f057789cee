pub mod Meaning
pub mod Stages
pub mod Mastheads
pub mod Pairs
pub mod Laws
pub mod Unions
pub mod Within
pub mod Parts
