pub mod Axes
pub mod Metres
