pub mod Cases
pub mod Joining
pub mod Rowed
pub mod Sides
