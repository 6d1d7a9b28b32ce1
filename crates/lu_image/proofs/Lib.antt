pub mod Descending
pub mod CorrespondenceIs
pub mod RenamesOrder
pub mod Samples
mod PairingExamples
mod CorrespondenceExamples
