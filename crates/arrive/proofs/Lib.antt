pub mod First
pub mod Pointer
pub mod Verdicts
pub mod Arrival
