pub mod Reached
pub mod Servers
pub mod Laws
