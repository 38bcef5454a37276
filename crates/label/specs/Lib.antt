pub mod Runs
pub mod Label
pub mod Theorems
