pub mod Tabled
pub mod Theorems
