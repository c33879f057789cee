pub mod Compared
pub mod Clashes
