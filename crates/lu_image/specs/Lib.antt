pub mod Renaming
pub mod Correspondence
pub mod Descent
pub mod Names
pub mod Pairing
pub mod RenameRefusal
pub mod Pairs
