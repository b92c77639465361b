pub mod Back
pub mod Begins
pub mod Cursors
pub mod Fits
pub mod Kinds
pub mod Reads
pub mod Texts
