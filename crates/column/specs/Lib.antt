pub mod Fault
pub mod Kinds
pub mod Cells
pub mod Windows
pub mod Refusal
pub mod Slots
pub mod Outputs
