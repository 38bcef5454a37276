pub mod Routing
pub mod Stages
pub mod Theorems
