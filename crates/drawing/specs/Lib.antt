pub mod Rows
pub mod Sources
