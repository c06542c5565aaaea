pub mod Explained
pub mod Missing
pub mod OnBytes
pub mod Opening
