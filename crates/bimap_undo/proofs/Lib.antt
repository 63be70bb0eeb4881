pub mod Replacing
pub mod Paths
pub mod Removing
pub mod Replaced
pub mod Items
pub mod Vecs
pub mod Performing
