pub mod Calls
pub mod Replays
pub mod Told
pub mod Wrongs
