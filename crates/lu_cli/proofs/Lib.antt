mod SequenceLemmas
mod ServerLemmas
mod RunLemmas
mod WithinLemmas
mod TopLemmas
