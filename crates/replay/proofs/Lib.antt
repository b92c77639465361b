pub mod Splits
pub mod Steps
pub mod Holds
pub mod Follows
pub mod Going
