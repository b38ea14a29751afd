mod Read
mod Steps
mod TraceLists
mod Limits
mod Failing
mod Texts
mod Closed
