pub mod Join
pub mod Step
pub mod LastRun
pub mod Turn
pub mod Bits
pub mod Theorems
