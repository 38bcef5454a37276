pub mod Spelling
pub mod Stages
pub mod Theorems
