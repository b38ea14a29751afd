mod Read
mod Steps
pub mod Tables
mod Objects
mod Transactions
mod Configs
mod Back
mod Counting
pub mod Listed
mod Names
mod KeyTables
mod KeyTexts
mod Filed
mod Named
mod Addresses
pub mod First
