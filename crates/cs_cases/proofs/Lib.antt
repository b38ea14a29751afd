pub mod Levels
pub mod Rows
pub mod Layers
pub mod Lines
