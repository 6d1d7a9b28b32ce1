pub mod NamePlaces
pub mod Kept
pub mod SameNames
pub mod DistinctNames
pub mod Places
pub mod Refused
mod Examples
