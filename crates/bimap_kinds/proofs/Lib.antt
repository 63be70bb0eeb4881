pub mod Walk
pub mod LastTaken
pub mod Inverses
pub mod Ranges
