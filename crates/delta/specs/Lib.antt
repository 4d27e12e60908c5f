pub mod Sources
pub mod Makes
pub mod Told
pub mod Mixing
pub mod Lawfulness
