pub mod Parts
pub mod Forms
pub mod Falls
pub mod Within
pub mod Layers
