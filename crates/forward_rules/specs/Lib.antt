pub mod Crossing
pub mod Forward
