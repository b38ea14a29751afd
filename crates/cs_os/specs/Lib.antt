pub mod Pace
pub mod Ports
