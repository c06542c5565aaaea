pub mod WholeLines
