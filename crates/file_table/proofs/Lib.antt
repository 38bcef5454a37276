pub mod Apart
pub mod Rows
pub mod Octets
pub mod Soundness
