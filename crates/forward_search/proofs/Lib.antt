pub mod Acts
pub mod Theorems
