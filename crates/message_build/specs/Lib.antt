pub mod Answer
pub mod Build
pub mod Theorems
pub mod Examples
