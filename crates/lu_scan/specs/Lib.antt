pub mod Scan
pub mod Targets
pub mod Given
pub mod Laws
