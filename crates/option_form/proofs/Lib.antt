pub mod Sizes
pub mod Keys
pub mod Lengths
