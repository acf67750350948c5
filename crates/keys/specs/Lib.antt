-- What serves the contracts and the code.
pub mod Keys
pub mod Sort
pub mod Tops
pub mod Change
