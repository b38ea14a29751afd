pub mod Halting
pub mod Courses
pub mod Creating
pub mod Coding
pub mod Slots
pub mod Beginning
pub mod Taking
pub mod Closing
