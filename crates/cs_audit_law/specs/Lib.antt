pub mod Dumped
pub mod Passing
pub mod Answered
