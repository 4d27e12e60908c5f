pub mod Numbers
pub mod Worded
pub mod Words
