pub mod Compacted
pub mod LastChanges
pub mod Law
pub mod Undone
