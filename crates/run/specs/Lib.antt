pub mod Shown
pub mod Rows
pub mod Table
pub mod Run
