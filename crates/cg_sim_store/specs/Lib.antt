pub mod Messages
pub mod Stores
