pub mod Chains
pub mod Width
pub mod Cells
pub mod Threads
pub mod ByWidth
