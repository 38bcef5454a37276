pub mod Laws
pub mod Held
pub mod Outputs
pub mod Digits
pub mod Examples
pub mod Theorems
