pub mod Placing
pub mod Fields
pub mod Extents
pub mod Runs
pub mod Writing
