pub mod Sums
pub mod Readings
pub mod Missing
pub mod Sheets
pub mod Views
