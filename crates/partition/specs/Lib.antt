pub mod Peers
pub mod Walk
pub mod Table
