pub mod Told
pub mod Heard
pub mod Runs
pub mod Voices
