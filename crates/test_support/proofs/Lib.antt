pub mod Keeping
pub mod Visiting
pub mod Removal
pub mod Undone
