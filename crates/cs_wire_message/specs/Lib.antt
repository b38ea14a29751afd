pub mod Message
pub mod Classes
pub mod Reading
pub mod Body
pub mod laws
