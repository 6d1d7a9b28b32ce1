pub mod Alike
pub mod Lengths
pub mod Offsets
pub mod Puts
pub mod Sums
pub mod TreeCode
pub mod TreeSizes
