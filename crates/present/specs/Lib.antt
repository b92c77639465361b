pub mod Present
pub mod Counting
