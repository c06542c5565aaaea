pub mod HandingOver
pub mod Working
pub mod Rounds
