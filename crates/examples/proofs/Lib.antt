mod Readings
mod IndexDay
mod Ban
pub mod Premises
