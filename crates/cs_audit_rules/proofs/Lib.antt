pub mod Logs
pub mod Parts
pub mod Supported
pub mod Told
pub mod Unbroken
