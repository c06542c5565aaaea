pub mod File
pub mod Format
pub mod Law
pub mod Netpbm
pub mod Pam
pub mod Stamp
