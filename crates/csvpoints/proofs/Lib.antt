pub mod EachRow
pub mod Fields
pub mod Records
pub mod RowFeatures
pub mod RowsLeft
