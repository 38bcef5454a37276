pub mod Route
pub mod Stages
pub mod Theorems
pub mod Examples
