pub mod Outcomes
pub mod Printed
pub mod Trials
pub mod Command
