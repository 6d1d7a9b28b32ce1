pub mod Outlines
pub mod Known
pub mod Predeclared
pub mod Tally
pub mod Drafts
pub mod Signatures
pub mod Records
pub mod Tables
