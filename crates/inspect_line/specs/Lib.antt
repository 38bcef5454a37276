pub mod Lines
pub mod Stages
pub mod Examples
pub mod Theorems
