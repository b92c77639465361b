pub mod Ends
pub mod Filled
pub mod Flaws
pub mod Fronts
pub mod Largest
pub mod Playing
pub mod Told
