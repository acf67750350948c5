-- What serves the contracts and the code.
pub mod Kept
