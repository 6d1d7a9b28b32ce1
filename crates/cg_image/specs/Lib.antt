pub mod Image
pub mod Short
