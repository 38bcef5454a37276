pub mod Search
pub mod Stages
pub mod Theorems
