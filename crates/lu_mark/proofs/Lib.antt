pub mod Members
pub mod Walking
mod Kept
