pub mod Shows
pub mod Look
pub mod OneSlot
pub mod laws
