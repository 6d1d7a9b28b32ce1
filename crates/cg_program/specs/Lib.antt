pub mod Compiled
pub mod Codes
pub mod Parts
pub mod Refusals
