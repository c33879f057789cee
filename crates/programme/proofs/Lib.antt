pub mod Sections
pub mod Sizes
pub mod Found
pub mod Nth
pub mod Places
pub mod Bodies
