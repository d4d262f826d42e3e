pub mod Crash
pub mod Refused
