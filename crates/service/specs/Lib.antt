pub mod Administering
pub mod Announcing
pub mod Failures
pub mod Serving
