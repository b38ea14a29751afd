pub mod Told
pub mod Kinds
pub mod Scopes
pub mod Lookups
pub mod Judging
pub mod Parts
