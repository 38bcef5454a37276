pub mod Written
pub mod Stages
pub mod Theorems
pub mod Examples
