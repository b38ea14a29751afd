pub mod Later
pub mod Replicas
pub mod Stands
pub mod laws
