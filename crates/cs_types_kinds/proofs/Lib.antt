pub mod KindLayers
pub mod Layers
pub mod Loops
