pub mod Accepting
pub mod Answering
pub mod Counting
pub mod Keeping
pub mod Knowing
pub mod Prefixes
pub mod Shortened
