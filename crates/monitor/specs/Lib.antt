pub mod Listed
pub mod Modest
pub mod View
pub mod Watching
