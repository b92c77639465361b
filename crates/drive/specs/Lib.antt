pub mod Calls
pub mod Kept
pub mod Outcomes
pub mod Reads
pub mod Runs
pub mod Whole
