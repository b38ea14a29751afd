pub mod Records
pub mod Journal
pub mod Moments
pub mod Keeping
