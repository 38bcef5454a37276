pub mod Table
pub mod Renumbering
pub mod Numbers
pub mod Order
pub mod Stages
pub mod Theorems
