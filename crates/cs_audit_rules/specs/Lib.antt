pub mod History
pub mod Slots
pub mod Sound
pub mod Stands
pub mod Support
pub mod Verdicts
