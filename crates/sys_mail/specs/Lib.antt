pub mod Room
pub mod Replies
