pub mod Generator
pub mod Texts
