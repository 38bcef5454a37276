pub mod Numbers
pub mod Formats
pub mod Loops
pub mod Writing
pub mod Places
