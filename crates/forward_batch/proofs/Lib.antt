pub mod Slots
pub mod Lists
