pub mod Marks
pub mod Decision
