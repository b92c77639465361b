pub mod Offset
pub mod Shift
pub mod Steps
pub mod Cases
pub mod Lawful
pub mod Fronts
