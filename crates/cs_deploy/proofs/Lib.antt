pub mod Bound
pub mod Later
pub mod Decided
pub mod Shown
pub mod Tried
pub mod Resumed
mod Unknown
mod Names
pub mod Steps
pub mod Texts
pub mod Takes
pub mod Hosted
pub mod Answered
pub mod DecidedKeys
pub mod Going
pub mod Reading
