pub mod Causes
pub mod Renames
pub mod Handlers
pub mod Updates
