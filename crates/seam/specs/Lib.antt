-- Read beside request (i).
pub mod Join
pub mod Graft
-- What serves these, the contracts and the code.
pub mod Halves
