pub mod Bounds
pub mod Rosters
pub mod Sheets
