pub mod Members
pub mod Words
pub mod Telling
pub mod Counted
pub mod Fitting
pub mod Deciding
pub mod Beginning
pub mod Sealing
pub mod Knows
pub mod Moving
pub mod Believing
mod Waited
pub mod Taking
mod Given
pub mod Entering
pub mod Examples
