mod Fieldless
pub mod Apart
pub mod Compaction
pub mod Counts
pub mod Digits
pub mod FreeList
pub mod FreeRuns
pub mod Inverse
pub mod Clones
pub mod Members
pub mod NodesInCells
pub mod Passing
pub mod Room
pub mod Walk
