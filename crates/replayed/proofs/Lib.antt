pub mod Steps
pub mod Words
