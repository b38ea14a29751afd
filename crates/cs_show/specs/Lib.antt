pub mod Keys
pub mod Lines
pub mod Words
pub mod Sayings
pub mod Standing
pub mod Looking
pub mod Honest
