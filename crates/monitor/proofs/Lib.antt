pub mod Same
pub mod New
pub mod Open
pub mod Limited
