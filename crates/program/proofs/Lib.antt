pub mod Fingerprints
pub mod Journals
pub mod Ports
