-- What serves the contracts and the code.
pub mod Table
pub mod Outline
