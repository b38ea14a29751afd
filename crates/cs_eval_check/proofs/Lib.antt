pub mod Actions
pub mod ActionWork
pub mod Turns
pub mod Said
pub mod Rooms
