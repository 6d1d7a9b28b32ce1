pub mod Texts
pub mod Least
pub mod Denoting
