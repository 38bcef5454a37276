pub mod Reading
pub mod Keys
pub mod Stages
pub mod Theorems
pub mod Examples
