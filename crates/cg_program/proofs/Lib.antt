pub mod Accepts
pub mod ByteLemmas
pub mod CodeLemmas
pub mod InitialLengths
pub mod Rules
