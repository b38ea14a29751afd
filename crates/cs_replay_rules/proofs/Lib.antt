pub mod Example
pub mod Shards
pub mod Played
