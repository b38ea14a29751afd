pub mod Back
pub mod Kept
pub mod Plain
pub mod Reading
pub mod Refused
pub mod Rows
pub mod Steps
pub mod Taken
