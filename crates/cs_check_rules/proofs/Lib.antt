pub mod Ordered
pub mod Named
pub mod Same
pub mod Known
pub mod Covered
pub mod Heads
