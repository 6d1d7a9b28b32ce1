pub mod FaultLemmas
pub mod PrefixLemmas
pub mod LittleEndianLemmas
pub mod SpliceLemmas
pub mod ThenLemmas
