pub mod TextsAre
pub mod Turns
