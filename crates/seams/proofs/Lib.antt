pub mod Chains
pub mod Covering
