pub mod Setup
pub mod Evidence
pub mod Pool
pub mod Admission
pub mod Bench
pub mod Asked
pub mod Deployed
pub mod laws
