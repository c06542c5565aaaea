pub mod Digits
pub mod Playing
pub mod Script
pub mod Sent
pub mod Transcript
pub mod Written
