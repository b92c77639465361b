pub mod Cells
pub mod Kept
pub mod Mirrors
pub mod Parts
pub mod ReadsBack
pub mod RunTold
pub mod Tells
