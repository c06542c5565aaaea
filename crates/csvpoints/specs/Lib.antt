pub mod Fault
pub mod Row
pub mod Rows
pub mod Source
pub mod Table
