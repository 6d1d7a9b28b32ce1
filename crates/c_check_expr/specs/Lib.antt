pub mod Denoted
pub mod Places
pub mod Operations
pub mod Typing
pub mod Uses
pub mod Calls
pub mod Declarators
