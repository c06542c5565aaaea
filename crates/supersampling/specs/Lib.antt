pub mod Smooth
pub mod TileRows
pub mod Tiles
