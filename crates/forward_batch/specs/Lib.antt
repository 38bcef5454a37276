pub mod Batch
pub mod Stages
