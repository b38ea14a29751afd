pub mod formers
pub mod Answers
pub mod Grammar
pub mod Kinds
pub mod Rules
pub mod Lexing
pub mod Texts
pub mod Tokens
