pub mod Seen
pub mod Changes
pub mod Effects
pub mod Pieces
pub mod Calls
pub mod Genesis
pub mod Dummies
