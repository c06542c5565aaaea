pub mod Balanced
pub mod ByteFaults
pub mod Grammar
pub mod Lexing
pub mod OneReading
