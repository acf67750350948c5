pub mod Digits
pub mod Putting
pub mod Size
pub mod Reading
