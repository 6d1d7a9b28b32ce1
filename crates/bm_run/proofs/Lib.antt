pub mod Came
pub mod Calling
pub mod Going
