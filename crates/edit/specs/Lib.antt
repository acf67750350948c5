-- Read beside document 01.
pub mod Rules
pub mod Model
pub mod Calls
-- What serves these, the contracts and the code.
pub mod Tables
