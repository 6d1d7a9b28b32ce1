pub mod SlicesEnd
pub mod SourceCompiled
pub mod SourceStarts
