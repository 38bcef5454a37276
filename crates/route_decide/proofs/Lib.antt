pub mod Lists
pub mod Decides
pub mod Unrouted
pub mod Gone
pub mod Theorems
