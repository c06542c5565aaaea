pub mod Commands
pub mod Together
pub mod Steps
pub mod KeptBatches
pub mod Groups
pub mod Submitting
