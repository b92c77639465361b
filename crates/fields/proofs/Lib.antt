pub mod Cells
pub mod Numerals
pub mod Stopped
