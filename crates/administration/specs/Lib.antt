pub mod Commands
pub mod Reading
pub mod Serving
pub mod Keeping
