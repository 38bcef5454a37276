pub mod Bitmap
pub mod Stages
pub mod Theorems
