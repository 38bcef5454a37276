pub mod Finds
pub mod Examples
pub mod Theorems
