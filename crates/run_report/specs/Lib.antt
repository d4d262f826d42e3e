pub mod Places
pub mod Work
pub mod Starts
pub mod Passes
pub mod Returns
pub mod Turns
pub mod Reporting
pub mod Replies
