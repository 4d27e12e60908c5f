pub mod Close
pub mod Steps
pub mod Soundness
