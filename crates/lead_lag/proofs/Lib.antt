pub mod Holds
pub mod Calls
pub mod Columns
pub mod Turned
pub mod Presences
