-- Read beside document 01.
pub mod Script
pub mod Desk
pub mod Result
-- What serves these, the contracts and the code.
pub mod Steps
