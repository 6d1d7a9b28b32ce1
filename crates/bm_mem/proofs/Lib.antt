pub mod Changes
pub mod Entries
pub mod Laws
pub mod ObjectLemmas
