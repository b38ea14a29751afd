pub mod Echoes
pub mod Risen
pub mod Wholes
pub mod Short
pub mod Bytes
pub mod Spelled
