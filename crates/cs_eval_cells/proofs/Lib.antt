mod ExprCells
mod BlockCells
pub mod Celled
