pub mod Decoded
pub mod Fitting
pub mod Shown
