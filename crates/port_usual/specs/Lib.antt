pub mod Usual
pub mod Stages
