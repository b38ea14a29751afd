pub mod Fits
pub mod Deployed
pub mod Calls
pub mod Votes
pub mod Seats
pub mod Gathered
pub mod Batches
