pub mod NoPanics
pub mod FilterRuns
pub mod QuietCode
pub mod QuietRuns
