pub mod Slack
pub mod Strict
pub mod Theorems
pub mod Examples
