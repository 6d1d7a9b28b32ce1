pub mod Documents
pub mod Items
pub mod Keeping
pub mod Keeps
pub mod RenameOrder
pub mod Splits
