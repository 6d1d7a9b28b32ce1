pub mod Fault
pub mod Prefix
pub mod LittleEndian
pub mod Splice
pub mod Then
