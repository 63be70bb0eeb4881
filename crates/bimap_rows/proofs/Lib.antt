pub mod Words
pub mod Texts
pub mod Pieces
pub mod Leading
pub mod Progress
pub mod Shown
pub mod Endings
