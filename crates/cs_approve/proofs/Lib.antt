pub mod Each
pub mod Making
pub mod Names
pub mod Sums
