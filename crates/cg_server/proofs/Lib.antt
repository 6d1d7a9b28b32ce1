pub mod Bytes
pub mod DumpLemmas
pub mod Initial
pub mod Keeps
pub mod Kept
pub mod Parameters
