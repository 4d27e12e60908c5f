pub mod Compared
mod Reports
