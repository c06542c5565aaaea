pub mod Event
pub mod Law
pub mod Reply
pub mod Sharing
pub mod Shortened
