pub mod Finding
pub mod Steps
pub mod SitesAre
pub mod Exits
pub mod Tables
pub mod TagsAre
pub mod Whole
pub mod Valid
