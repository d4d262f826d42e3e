pub mod Prefix
pub mod Standing
pub mod Twin
pub mod Search
pub mod Memo
pub mod Verdict
pub mod Replies
