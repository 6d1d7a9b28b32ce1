pub mod Represents
pub mod Runs
