pub mod Adopting
pub mod Ascending
pub mod Compaction
pub mod Grown
pub mod Hashing
pub mod Insertion
pub mod Ranked
pub mod Copied
