pub mod Faults
pub mod Told
