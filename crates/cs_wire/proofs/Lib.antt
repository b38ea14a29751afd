pub mod Parts
pub mod Sealed
pub mod Rows
pub mod Named
pub mod Unsealed
pub mod Masters
pub mod OpenedAs
