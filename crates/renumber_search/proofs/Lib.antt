pub mod Bisecting
pub mod Cuts
pub mod Joining
pub mod Whole
pub mod Search
pub mod Carries
