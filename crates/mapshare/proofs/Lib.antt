pub mod Chains
pub mod Crossing
pub mod Entering
pub mod ReaderCrossing
pub mod Seeing
pub mod Accepting
pub mod Checks
