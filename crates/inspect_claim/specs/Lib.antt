pub mod Claim
pub mod Compare
pub mod Examples
pub mod Theorems
