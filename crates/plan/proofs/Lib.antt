-- The counts (Counted, Counting) and the operation's answer (Answers, Bare, ReadBack).
pub mod Counted
pub mod Counting
pub mod Answers
pub mod Bare
pub mod ReadBack
