pub mod Acting
pub mod Checks
