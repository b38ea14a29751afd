pub mod Receiving
pub mod Offering
pub mod Telling
pub mod Giving
pub mod Serving
pub mod laws
pub mod Attending
