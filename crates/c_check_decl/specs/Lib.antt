pub mod Records
pub mod Globals
