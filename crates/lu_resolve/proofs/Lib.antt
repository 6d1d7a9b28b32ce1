pub mod Finding
pub mod Tests
pub mod Steps
pub mod RenamesOnce
pub mod HandlersAre
pub mod PairsAre
