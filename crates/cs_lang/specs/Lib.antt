pub mod Readers
pub mod Rules
pub mod Texts
pub mod Trees
pub mod Fits
