pub mod Parameters
pub mod Statements
pub mod Declarations
pub mod Views
pub mod Answers
