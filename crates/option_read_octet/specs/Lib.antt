pub mod Entry
pub mod Theorems
