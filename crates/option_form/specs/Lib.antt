pub mod Spelled
pub mod Keys
pub mod Stages
