pub mod Actions
pub mod Branches
pub mod Faults
pub mod Loops
pub mod Staying
pub mod Accepting
pub mod Faulty
