pub mod Bounds
pub mod Days
pub mod Marks
pub mod Values
pub mod Sweeps
pub mod Calls
pub mod Kept
pub mod Listing
