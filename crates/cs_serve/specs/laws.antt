pub mod Offering
pub mod Taken
