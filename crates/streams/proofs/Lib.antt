pub mod Pieces
pub mod Sending
