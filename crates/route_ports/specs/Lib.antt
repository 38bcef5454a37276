pub mod Ports
pub mod Stages
