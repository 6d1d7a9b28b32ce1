pub mod Slices
pub mod SourceCode
