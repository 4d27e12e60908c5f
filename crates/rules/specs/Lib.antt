pub mod Bounds
pub mod Limit
pub mod Ban
pub mod Violation
pub mod Charge
