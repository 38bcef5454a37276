pub mod Sample
pub mod Choice
pub mod Theorems
