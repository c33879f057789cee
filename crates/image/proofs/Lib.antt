pub mod Reading
pub mod Splitting
pub mod Earliest
pub mod FirstFault
