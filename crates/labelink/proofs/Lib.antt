pub mod Boxed
pub mod Chords
pub mod Discs
pub mod Inked
pub mod Laying
pub mod Rows
pub mod Runs
