pub mod Lent
pub mod Rows
pub mod Order
pub mod Sound
pub mod Numbers
pub mod Theorems
pub mod Renumberings
