pub mod Arguments
pub mod Subcommands
