pub mod Joins
pub mod Shows
pub mod Signs
pub mod Calls
