pub mod Covers
pub mod Depositories
pub mod Reports
pub mod Boundedness
