pub mod Between
pub mod SamePart
pub mod Sharing
pub mod Laws
