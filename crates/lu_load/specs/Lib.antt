pub mod Causes
pub mod Plans
pub mod Schedules
pub mod Programs
pub mod Updates
pub mod Setups
