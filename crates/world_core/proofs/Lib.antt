pub mod Indices
pub mod Scans
pub mod Bounds
