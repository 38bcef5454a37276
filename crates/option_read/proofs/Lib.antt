pub mod Loops
pub mod Checks
pub mod Keys
pub mod Valid
pub mod Theorems
pub mod Told
