pub mod CallEnds
pub mod Compiled
pub mod Simulation
