pub mod Sets
pub mod Carry
pub mod Stages
