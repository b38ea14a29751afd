pub mod Starting
pub mod Heard
pub mod Void
pub mod Entries
