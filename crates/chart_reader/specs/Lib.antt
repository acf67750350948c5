-- Read beside document 01; Follow beside request (x).
pub mod Formed
pub mod Rules
pub mod Reader
pub mod Charts
pub mod Follow
-- What serves these, the contracts and the code.
pub mod Held
pub mod Gaps
pub mod Once
pub mod Strokes
