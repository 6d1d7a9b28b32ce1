pub mod Carries
mod Pairs
mod Steps
