pub mod Site
pub mod Settings
pub mod Played
pub mod Answers
pub mod Closing
pub mod Sound
pub mod Lines
pub mod Settled
