pub mod Service
pub mod Law
