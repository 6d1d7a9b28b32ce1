pub mod ValidSeen
