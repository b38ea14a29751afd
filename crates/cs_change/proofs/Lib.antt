pub mod Counting
pub mod Splits
pub mod Adding
pub mod Reaching
pub mod Safety
pub mod Readable
