pub mod Header
pub mod Messages
pub mod Names
pub mod Reading
pub mod Report
pub mod Sessions
pub mod Faults
