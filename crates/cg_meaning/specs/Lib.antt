pub mod Runs
pub mod Servers
