pub mod Groups
pub mod Window
