pub mod Over
pub mod Stages
