pub mod Advancing
pub mod Lines
pub mod Order
pub mod Ranks
pub mod Runs
