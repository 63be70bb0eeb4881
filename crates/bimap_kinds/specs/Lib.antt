pub mod Held
pub mod HeldTable
pub mod Sorted
pub mod Extraction
pub mod Seeded
