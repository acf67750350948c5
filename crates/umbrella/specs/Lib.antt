-- Read beside document 01.
pub mod Plan
pub mod Drawn
pub mod Triangles
pub mod Rim
pub mod Border
-- Read beside document 004, chapter 6, and request (iv).
pub mod Values
pub mod Depth
-- Read beside request (ii).
pub mod Tight
-- What serves these, the contracts and the code.
pub mod Best
pub mod Roles
