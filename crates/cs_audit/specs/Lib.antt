pub mod Committed
pub mod Kept
pub mod Ledgers
pub mod Printed
pub mod Standing
pub mod Votes
