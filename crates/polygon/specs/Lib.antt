-- Read beside document 01, and beside request (xi).
pub mod Polygon
pub mod Tree
pub mod Angles
pub mod Carried
-- What serves these, the contracts and the code.
pub mod Order
pub mod Edges
