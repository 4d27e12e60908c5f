pub mod Sums
pub mod Sizes
pub mod Turns
pub mod Firsts
pub mod Sheets
