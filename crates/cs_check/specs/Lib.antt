pub mod Root
pub mod Leaves
pub mod Kept
pub mod Archives
