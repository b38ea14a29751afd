pub mod Reading
pub mod Encoding
pub mod Kinds
pub mod Name
pub mod Object
pub mod Key
pub mod laws
