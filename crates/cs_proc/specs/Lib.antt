pub mod Transfer
pub mod Calling
pub mod Answering
pub mod Acting
pub mod Methods
pub mod Tasks
pub mod laws
