-- Read beside document 01.
pub mod Answer
-- What serves these, the contracts and the code.
pub mod Counts
