pub mod Reading
pub mod Console
