pub mod Ready
pub mod Windows
pub mod Ends
pub mod Listed
pub mod InSpan
pub mod Stepping
pub mod Positions
