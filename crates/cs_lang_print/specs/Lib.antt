pub mod Words
pub mod Spelling
pub mod Expressions
pub mod Statements
pub mod Texts
pub mod Runs
pub mod Places
pub mod Again
