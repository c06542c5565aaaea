pub mod Commands
pub mod Digits
pub mod Filling
pub mod HexLines
pub mod Playing
pub mod Rests
pub mod ScriptSteps
pub mod WrittenScripts
