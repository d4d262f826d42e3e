pub mod Event
pub mod Table
pub mod Part
pub mod Parts
pub mod Verdict
pub mod Watch
