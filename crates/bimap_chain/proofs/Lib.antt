pub mod Below
pub mod WithNext
pub mod Rethread
pub mod Walk
pub mod Kept
pub mod Seen
pub mod Filling
pub mod Rehashed
