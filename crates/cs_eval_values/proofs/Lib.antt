pub mod Ranges
pub mod Naming
pub mod Uneven
pub mod Going
pub mod Items
pub mod Firsting
