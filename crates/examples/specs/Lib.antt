pub mod Words
pub mod Readings
pub mod IndexDay
pub mod Ban
pub mod Premises
pub mod Worked
