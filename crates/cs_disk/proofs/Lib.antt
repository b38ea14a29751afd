pub mod Tearing
mod Passing
pub mod Runs
