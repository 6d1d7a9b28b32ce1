pub mod Constants
pub mod Initials
pub mod Messages
pub mod Rules
pub mod Starts
