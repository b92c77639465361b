pub mod Groups
pub mod Along
pub mod Faults
pub mod Accepted
