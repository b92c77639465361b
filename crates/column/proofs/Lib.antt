pub mod Listed
pub mod Cells
pub mod Sameness
pub mod Exits
pub mod Columns
pub mod Writes
pub mod Filled
