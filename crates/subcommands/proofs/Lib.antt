pub mod Explaining
pub mod Parents
pub mod Lines
pub mod Parting
pub mod Serving
