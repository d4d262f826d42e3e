pub mod Recorded
pub mod States
pub mod Judged
pub mod Enforced
pub mod Kept
pub mod Events
pub mod Verdicts
