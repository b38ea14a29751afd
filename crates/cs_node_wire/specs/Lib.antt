pub mod SoloCarried
pub mod SlotCarried
pub mod laws
