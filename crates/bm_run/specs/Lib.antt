pub mod Opened
pub mod Plain
pub mod Room
pub mod View
pub mod Spent
pub mod Transferred
pub mod Came
pub mod Going
