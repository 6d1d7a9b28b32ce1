pub mod StandsFor
pub mod Start
pub mod Laws
