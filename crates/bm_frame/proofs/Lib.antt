pub mod Words
pub mod Rows
pub mod Bytes
pub mod Places
pub mod Copying
pub mod Written
