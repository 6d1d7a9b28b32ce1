mod Sample
mod RunExamples
mod UpdateExamples
pub mod Ending
