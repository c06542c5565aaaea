pub mod Colours
mod Lookup
mod Prefixes
