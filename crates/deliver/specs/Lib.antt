pub mod Delivery
pub mod Stages
