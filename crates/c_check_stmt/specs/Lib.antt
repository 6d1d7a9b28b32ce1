pub mod Variables
pub mod Rights
pub mod Simple
pub mod Statements
pub mod Bodies
