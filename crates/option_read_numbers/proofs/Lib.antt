pub mod Building
pub mod Loops
