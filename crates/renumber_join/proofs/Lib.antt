pub mod Merge
pub mod Sets
pub mod Answers
pub mod Theorems
