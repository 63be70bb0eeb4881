pub mod Ring
pub mod Ranks
pub mod ByWidth
