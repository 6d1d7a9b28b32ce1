pub mod View
pub mod Signs
pub mod Start
