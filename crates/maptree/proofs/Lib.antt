mod Blocks
mod FirstFault
pub mod Joining
pub mod OnePass
mod OpenBlocks
mod Reading
mod Written
