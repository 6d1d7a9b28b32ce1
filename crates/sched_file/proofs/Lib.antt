pub mod BasicEvents
pub mod BytesLemmas
pub mod EventLemmas
pub mod LineLemmas
pub mod NumberLemmas
pub mod WordLemmas
