-- What serves the contracts and the code.
pub mod Columns
pub mod Lines
pub mod Walk
pub mod Marks
pub mod Located
