pub mod LaterSlots
pub mod Mirroring
pub mod Verdicts
pub mod Calling
pub mod Acting
pub mod Whole
