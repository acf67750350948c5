pub mod Theorems
pub mod Storing
pub mod Joining
pub mod Knowing
pub mod Passing
pub mod Descending
