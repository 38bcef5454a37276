pub mod Partners
pub mod Theorems
