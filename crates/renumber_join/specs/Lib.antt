pub mod Join
pub mod Stages
pub mod Theorems
