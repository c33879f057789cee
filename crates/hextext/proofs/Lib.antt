pub mod Digits
mod Typing
