pub mod WordPart
pub mod Text
pub mod Sentences
pub mod Typed
