pub mod Worlds
pub mod Steps
pub mod Clients
pub mod Shown
pub mod Orders
pub mod Chain
pub mod laws
pub mod Agreement
