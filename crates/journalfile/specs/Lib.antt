pub mod Log
pub mod Frames
pub mod Replacing
pub mod Steps
pub mod Settled
pub mod Keeping
pub mod Compacting
pub mod Recovery
