pub mod Kept
pub mod Leaves
pub mod Whole
pub mod Fields
pub mod Steps
pub mod Walk
pub mod Again
mod Before
