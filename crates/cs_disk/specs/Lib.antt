pub mod Disk
pub mod Moments
pub mod Tears
pub mod InMemory
pub mod laws
