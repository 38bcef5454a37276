pub mod Keys
pub mod Stages
