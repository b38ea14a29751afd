pub mod Ledger
pub mod Session
pub mod Table
pub mod Standing
pub mod ShardWorld
pub mod Strings
