pub mod Growing
pub mod Scans
pub mod Locals
pub mod Phases
pub mod Stepping
