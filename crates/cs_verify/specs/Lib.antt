pub mod Forms
pub mod Lines
pub mod Text
pub mod Verdicts
