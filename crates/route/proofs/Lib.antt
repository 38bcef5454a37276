pub mod Laws
pub mod Keys
pub mod Longest
pub mod Examples
