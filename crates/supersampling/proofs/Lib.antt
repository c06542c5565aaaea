pub mod Smoothing
pub mod Tiled
pub mod Tiling
