pub mod Events
pub mod Looping
pub mod Promised
pub mod Working
