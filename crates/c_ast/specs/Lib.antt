pub mod Lexeme
pub mod Lexical
pub mod Trees
pub mod Cells
pub mod Grammar
pub mod Program
