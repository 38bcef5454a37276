pub mod Answers
pub mod Keys
pub mod Few
pub mod Theorems
pub mod Told
