pub mod Told
pub mod Flags
pub mod Until
