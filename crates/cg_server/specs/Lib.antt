pub mod Deliveries
pub mod Dump
pub mod Messages
pub mod State
pub mod Temporaries
