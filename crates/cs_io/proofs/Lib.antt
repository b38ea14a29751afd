mod Filed
mod Arrivals
pub mod Closings
pub mod Digits
pub mod Sources
