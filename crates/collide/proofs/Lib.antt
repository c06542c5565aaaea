pub mod Bitwise
pub mod Boxed
pub mod Marking
