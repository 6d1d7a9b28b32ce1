pub mod CallPuts
pub mod CodeLengths
pub mod PutLists
pub mod StatementPuts
pub mod StatementTrees
pub mod Weights
