pub mod FieldLists
pub mod Addresses
