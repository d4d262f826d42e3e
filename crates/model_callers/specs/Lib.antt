pub mod Callers
pub mod Judging
pub mod Told
