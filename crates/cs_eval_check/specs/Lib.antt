pub mod Tasks
pub mod TaskWork
pub mod TaskRoom
