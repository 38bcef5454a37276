pub mod Put
pub mod Text
pub mod Line
pub mod Theorems
pub mod Examples
