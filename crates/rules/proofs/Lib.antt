pub mod Deliveries
pub mod Limits
