pub mod Courses
pub mod Windows
pub mod Positions
