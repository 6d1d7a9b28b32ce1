pub mod Sizes
pub mod Induction
pub mod Longer
pub mod Extended
pub mod ZeroValues
pub mod PathSteps
pub mod StoreParts
pub mod StoreLaws
