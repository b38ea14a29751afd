pub mod Events
pub mod Nets
