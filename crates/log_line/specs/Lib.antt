-- Read beside document 01.
pub mod Line
-- What serves these, the contracts and the code.
pub mod Put
