pub mod Covers
pub mod Whole
pub mod Steps
pub mod Laws
pub mod RankRows
pub mod NumberRows
