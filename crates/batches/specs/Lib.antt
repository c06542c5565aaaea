pub mod Batch
pub mod Command
pub mod Fault
pub mod Written
