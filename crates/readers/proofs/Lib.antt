pub mod Filtering
pub mod Parting
pub mod Walking
