pub mod Making
pub mod Names
pub mod Words
