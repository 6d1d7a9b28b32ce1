pub mod Places
pub mod Refusing
pub mod Tags
pub mod Sites
pub mod Outlines
