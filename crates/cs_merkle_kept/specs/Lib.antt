pub mod Levels
pub mod Leaves
pub mod Kept
pub mod Puts
pub mod Changes
pub mod Counts
