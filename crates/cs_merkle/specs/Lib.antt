pub mod Tree
pub mod Path
pub mod Standard
pub mod Collisions
