pub mod Slot
pub mod Safe
pub mod Facts
pub mod Rules
pub mod SlotMachine
