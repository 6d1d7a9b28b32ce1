pub mod Stands
pub mod Placed
pub mod Freed
