pub mod Tables
pub mod Places
pub mod Holding
pub mod Listed
pub mod Equal
pub mod Soundness
