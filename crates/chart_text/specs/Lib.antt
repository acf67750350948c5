-- Read beside document 01.
pub mod Text
-- What serves these, the contracts and the code.
pub mod Ordered
