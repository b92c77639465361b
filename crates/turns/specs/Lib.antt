pub mod Turns
pub mod Numbers
pub mod Keys
