pub mod Lines
pub mod Aborts
pub mod Play
pub mod Dumps
pub mod PlayedWorlds
