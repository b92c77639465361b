pub mod Arguments
pub mod Meaning
pub mod Mirror
