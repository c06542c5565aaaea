pub mod Grain
pub mod Rounded
pub mod Stroked
pub mod Styles
