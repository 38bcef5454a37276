pub mod Levels
pub mod Partners
