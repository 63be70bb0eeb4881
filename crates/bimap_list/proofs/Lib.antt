pub mod Links
pub mod Ranking
