-- Read beside request (iii).
pub mod Cut
pub mod Pruned
-- What serves these, the contracts and the code.
pub mod Tables
