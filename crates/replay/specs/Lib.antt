pub mod History
pub mod Act
