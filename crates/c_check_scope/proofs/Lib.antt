pub mod Distinct
mod Examples
pub mod NameLemmas
pub mod Past
pub mod Sets
