pub mod Numbers
pub mod Bodies
pub mod Writing
pub mod Keys
