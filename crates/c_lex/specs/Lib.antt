pub mod Front
pub mod Refusal
