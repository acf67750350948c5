-- What serves the contracts and the code.
pub mod Within
pub mod Read
