pub mod Latitudes
pub mod Margin
pub mod Painted
pub mod Shapes
