-- Read beside document 01.
pub mod ReadBack
