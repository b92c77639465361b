pub mod Holds
pub mod Settles
pub mod Cursors
pub mod Calls
pub mod Turned
pub mod Marks
pub mod Spans
