pub mod Administered
pub mod HandingOver
pub mod Timing
