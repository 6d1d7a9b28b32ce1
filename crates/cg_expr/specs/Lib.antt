pub mod Pieces
pub mod Sizes
pub mod Code
pub mod Seen
