pub mod Climbs
pub mod Placed
pub mod Said
pub mod Compares
pub mod Alike
