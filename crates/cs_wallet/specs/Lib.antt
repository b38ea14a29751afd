pub mod File
pub mod Printed
pub mod Fitting
pub mod Refusals
pub mod Rising
pub mod Commands
