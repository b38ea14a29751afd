pub mod Filling
pub mod Emptying
