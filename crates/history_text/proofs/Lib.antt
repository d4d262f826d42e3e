pub mod Stepping
pub mod CellSteps
pub mod Reading
