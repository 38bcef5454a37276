pub mod Concluded
pub mod Theorems
