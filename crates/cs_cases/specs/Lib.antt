pub mod Grammar
pub mod Judging
pub mod Text
pub mod Printed
