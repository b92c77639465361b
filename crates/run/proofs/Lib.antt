pub mod Seen
pub mod Zeroed
pub mod Asks
pub mod Unframed
