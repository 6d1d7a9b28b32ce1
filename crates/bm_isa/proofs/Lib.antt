pub mod CodeLemmas
pub mod Inverse
pub mod ReadingLemmas
