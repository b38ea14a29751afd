pub mod Books
pub mod Refusing
pub mod Seen
pub mod Approval
