mod Boxes
mod Extents
pub mod Numbers
mod Readings
mod Sought
mod Tags
