pub mod Located
pub mod Locating
