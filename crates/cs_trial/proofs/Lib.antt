pub mod Closed
pub mod Runs
pub mod Turns
