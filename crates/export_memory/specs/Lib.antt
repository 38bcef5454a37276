pub mod Export
pub mod Theorems
