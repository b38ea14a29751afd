pub mod Values
pub mod Ruling
pub mod Hashlock
pub mod Sum
pub mod Taking
pub mod Message
pub mod Signed
pub mod Approval
