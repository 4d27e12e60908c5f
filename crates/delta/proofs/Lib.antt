pub mod Sizes
pub mod Equal
pub mod Told
