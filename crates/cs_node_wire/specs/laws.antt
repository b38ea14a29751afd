pub mod SlotCarried
