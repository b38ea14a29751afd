pub mod Books
pub mod Deployed
pub mod Earlier
pub mod Example
pub mod Few
pub mod Honest
pub mod Whole
mod Joined
