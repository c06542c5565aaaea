pub mod Fault
pub mod Files
pub mod Fonts
pub mod Mapping
pub mod Parsed
pub mod Symbols
pub mod Tables
pub mod Uses
