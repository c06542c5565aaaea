pub mod Alphas
pub mod Blocks
pub mod Capping
pub mod Files
pub mod Maps
pub mod Pictures
pub mod Stamping
