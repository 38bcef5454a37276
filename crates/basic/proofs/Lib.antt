pub mod Levels
pub mod LevelTheorems
pub mod Form
pub mod Writing
pub mod OptionTheorems
pub mod Settings
pub mod Theorems
pub mod Examples
