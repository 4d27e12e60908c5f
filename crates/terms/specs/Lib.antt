pub mod Bounds
pub mod Marks
pub mod Refusals
pub mod Causes
