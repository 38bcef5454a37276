pub mod Bitmap
pub mod Option
pub mod Permitted
pub mod Reading
pub mod Spelling
pub mod Index
pub mod Theorems
pub mod Table
