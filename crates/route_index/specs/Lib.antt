pub mod Index
pub mod Stages
pub mod Theorems
pub mod Examples
