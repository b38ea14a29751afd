pub mod Kinds
pub mod Meaning
pub mod Stacked
pub mod Work
pub mod Room
pub mod Machine
pub mod Blocks
pub mod Places
