pub mod Theorems
pub mod Strict
pub mod Pairs
pub mod Examples
