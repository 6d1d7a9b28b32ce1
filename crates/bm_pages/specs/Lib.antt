pub mod Directory
pub mod Extents
pub mod Pages
