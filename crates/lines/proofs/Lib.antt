mod Fields
pub mod Lists
mod Numbers
pub mod Passed
pub mod Shown
pub mod Words
