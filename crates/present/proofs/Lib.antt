pub mod Counts
pub mod Ahead
pub mod Behind
pub mod Chains
pub mod Parts
pub mod Turned
pub mod Counting
pub mod Found
mod First
