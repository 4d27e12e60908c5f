pub mod Sweeps
pub mod Table
pub mod Reports
