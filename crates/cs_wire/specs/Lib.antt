pub mod Datagram
pub mod Heads
pub mod Keys
pub mod Opens
pub mod Opened
pub mod OpenedAs
pub mod Raw
pub mod AllNames
