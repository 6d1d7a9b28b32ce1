pub mod Added
pub mod Allocated
pub mod Freed
pub mod Fresh
pub mod Messages
pub mod Tops
