pub mod Descent
pub mod Fit
pub mod Held
pub mod Rows
pub mod Shapes
pub mod Limit
pub mod Sound
pub mod Map
