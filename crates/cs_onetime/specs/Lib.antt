pub mod Lists
pub mod Halves
pub mod Signature
pub mod Wallet
