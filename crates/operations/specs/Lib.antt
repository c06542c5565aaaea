pub mod Mime
pub mod Operation
