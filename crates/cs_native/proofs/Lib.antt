pub mod Ruled
pub mod Saying
pub mod Taken
pub mod Verified
