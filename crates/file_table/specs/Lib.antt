pub mod TableFormat
pub mod Stages
pub mod Theorems
