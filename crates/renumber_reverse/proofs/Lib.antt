pub mod Rows
pub mod Levels
pub mod Steps
pub mod Tables
pub mod Answers
pub mod Theorems
