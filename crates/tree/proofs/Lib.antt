pub mod Pieces
pub mod Table
pub mod Lasting
pub mod Outline
pub mod Listing
pub mod Whole
