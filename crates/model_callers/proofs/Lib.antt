pub mod Staying
pub mod Gathered
