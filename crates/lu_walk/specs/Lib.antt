pub mod Rows
pub mod ObjectWords
pub mod Extents
pub mod Stands
pub mod Walking
