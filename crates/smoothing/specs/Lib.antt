pub mod Blocks
pub mod Channels
pub mod Columns
pub mod Fine
pub mod Laws
pub mod Mean
pub mod Shares
pub mod Sums
