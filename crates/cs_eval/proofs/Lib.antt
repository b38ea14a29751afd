pub mod RunLaws
pub mod Layers
pub mod WorkLayers
pub mod Turns
pub mod Actions
pub mod PlacesLayers
