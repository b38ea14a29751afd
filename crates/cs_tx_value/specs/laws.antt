pub mod Layers
pub mod Value
pub mod Name
pub mod Object
pub mod Key
pub mod Limits
pub mod Kinds
