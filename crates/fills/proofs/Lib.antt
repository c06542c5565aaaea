pub mod FlipFilling
pub mod Flipping
pub mod RingBlocks
pub mod Skipping
pub mod Sweeping
