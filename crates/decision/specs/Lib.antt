pub mod Decision
pub mod Verdict
pub mod Stages
pub mod Theorems
