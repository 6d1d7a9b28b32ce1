pub mod Addresses
pub mod Exit
pub mod Files
pub mod Output
pub mod Sending
pub mod Stored
