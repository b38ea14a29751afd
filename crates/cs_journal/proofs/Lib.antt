mod Places
pub mod Readings
mod Crashes
mod Gates
pub mod Calls
pub mod Findings
mod Parts
