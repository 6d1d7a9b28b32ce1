pub mod Wrapping
pub mod ConstantLayers
pub mod ConstantValues
pub mod InitialLemmas
mod IntegerExamples
mod Sample
mod RunExamples
mod TrapExamples
mod ByteExamples
mod BudgetExamples
mod AssignmentExamples
pub mod Fuel
pub mod LayoutLengths
pub mod PartBytes
pub mod FuelSame
pub mod ValidTrees
pub mod ValidBounds
pub mod ValidRows
pub mod ValidTypeFacts
pub mod ValidMarks
pub mod ValidItems
