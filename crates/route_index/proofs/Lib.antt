pub mod Examples
pub mod Put
pub mod Found
pub mod Paint
