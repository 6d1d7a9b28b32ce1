pub mod StatementSizes
pub mod StatementCode
pub mod Functions
