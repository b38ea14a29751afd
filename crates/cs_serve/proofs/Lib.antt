pub mod Giving
pub mod Trails
mod Noted
mod Answered
pub mod Turns
pub mod Runs
pub mod Told
