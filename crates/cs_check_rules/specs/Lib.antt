pub mod Keys
pub mod Root
pub mod Proofs
pub mod Heads
pub mod Chain
pub mod Shown
