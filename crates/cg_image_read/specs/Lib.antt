pub mod Answer
pub mod Fields
pub mod Types
pub mod Decoding
pub mod Items
pub mod Reading
pub mod HasImage
