pub mod Sequence
pub mod Words
pub mod Told
pub mod Ran
pub mod Stops
pub mod Top
