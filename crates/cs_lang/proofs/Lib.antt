pub mod Laws
pub mod Levels
pub mod Onward
pub mod Sentences
pub mod TextRules
pub mod Opened
pub mod Chains
pub mod Fitting
