pub mod Reverse
pub mod Stages
pub mod Theorems
