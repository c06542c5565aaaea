pub mod Between
pub mod Blocks
pub mod Equal
pub mod Grouping
pub mod Joining
pub mod Summing
pub mod Plain
pub mod Sharing
