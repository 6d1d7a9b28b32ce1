pub mod DirectoryLemmas
pub mod ExtentLemmas
pub mod RangeLemmas
pub mod ContentLemmas
pub mod PlaceLemmas
