pub mod Crossings
pub mod Forwards
