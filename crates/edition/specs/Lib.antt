pub mod Fields
pub mod Numbers
pub mod Settings
pub mod Lines
pub mod Cursor
pub mod Reading
pub mod Sentences
