pub mod ByFirst
pub mod CutSteps
pub mod KeywordTables
pub mod KindTexts
pub mod LineFeeds
pub mod Longest
pub mod Symbols
pub mod TokenLists
