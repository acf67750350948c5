pub mod Seeking
pub mod Areas
pub mod Line
pub mod Spans
pub mod Columns
pub mod TwoSorts
pub mod Ordering
pub mod Theorems
