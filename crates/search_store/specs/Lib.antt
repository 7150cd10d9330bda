pub mod Map
pub mod Places
