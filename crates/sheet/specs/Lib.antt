-- Read beside document 01, and beside requests (xi) and (xii).
pub mod Sheet
pub mod Listing
pub mod Refusals
pub mod Skipped
-- What serves these, the contracts and the code.
pub mod Framed
pub mod Hand
pub mod Held
