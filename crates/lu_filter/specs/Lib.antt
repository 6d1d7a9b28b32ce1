pub mod Causes
pub mod Filters
