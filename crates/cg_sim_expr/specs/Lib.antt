pub mod Setting
pub mod Simulation
