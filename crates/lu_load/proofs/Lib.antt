pub mod Loaded
pub mod Updating
