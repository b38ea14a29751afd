pub mod Trails
pub mod Families
pub mod Reaching
