pub mod Bounds
pub mod Products
