pub mod Renumber
pub mod Stages
pub mod Theorems
