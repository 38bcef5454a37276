pub mod Picked
pub mod Refusals
