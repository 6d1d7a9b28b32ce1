pub mod CallRuns
pub mod Deliveries
pub mod Handlers
pub mod NoMessages
pub mod Starts
pub mod ZeroMessage
