pub mod Equal
pub mod Counts
pub mod Posts
pub mod Undo
mod Grids
mod Rows
mod Shifts
mod Tabled
mod Lists
