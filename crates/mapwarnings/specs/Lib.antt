pub mod Bitmap
pub mod Lines
pub mod Unused
pub mod Warning
