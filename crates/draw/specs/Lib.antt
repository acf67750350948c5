-- Read beside document 01.
pub mod Answer
pub mod Printed
pub mod Program
-- Read beside request (ii).
pub mod Label
-- What serves these, the contracts and the code.
pub mod WithBars
pub mod Told
pub mod Charted
