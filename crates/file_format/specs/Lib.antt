pub mod Format
pub mod Laws
pub mod Places
