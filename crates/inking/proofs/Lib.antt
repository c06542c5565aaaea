pub mod Graining
pub mod Quieting
pub mod RoundBlocks
pub mod RoundFilling
pub mod RoundStroking
pub mod Stripping
pub mod StrokeBlocks
pub mod Stroking
