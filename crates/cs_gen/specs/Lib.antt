pub mod Draws
pub mod Coins
pub mod Rounds
pub mod Schedules
pub mod Sound
