pub mod Session
pub mod Entry
pub mod Record
pub mod Log
pub mod Sized
