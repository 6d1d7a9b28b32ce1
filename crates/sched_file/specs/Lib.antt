pub mod Bytes
pub mod Commands
pub mod Events
pub mod Number
pub mod Schedule
pub mod Words
