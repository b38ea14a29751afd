pub mod Actions
pub mod Loops
pub mod Agreeing
