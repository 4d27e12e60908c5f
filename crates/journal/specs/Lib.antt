pub mod Bounds
pub mod Forms
pub mod Names
pub mod Said
pub mod Taken
