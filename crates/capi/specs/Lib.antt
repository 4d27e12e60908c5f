pub mod Bounds
pub mod Days
pub mod Answers
