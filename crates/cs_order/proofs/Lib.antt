pub mod Logs
pub mod Searches
mod Examples
