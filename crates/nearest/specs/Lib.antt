-- Read beside document 01; Nearest beside request (x).
pub mod Cells
pub mod BarRule
pub mod Nearest
-- What serves these, the contracts and the code.
pub mod Areas
pub mod Held
pub mod Order
