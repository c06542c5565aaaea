pub mod Boxing
pub mod Filling
pub mod Painting
pub mod Stamps
pub mod TwoSpans
