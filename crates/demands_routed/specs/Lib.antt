pub mod Demands
pub mod Limits
pub mod Worked
pub mod Untouched
pub mod Rules
