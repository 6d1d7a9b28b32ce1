pub mod Held
pub mod Sent
pub mod Served
pub mod Space
