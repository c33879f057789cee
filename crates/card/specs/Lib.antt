pub mod Card
pub mod Examples
