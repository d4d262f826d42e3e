pub mod CoreObjects
pub mod OneWordPasses
pub mod LogCalls
pub mod LogPasses
