pub mod Orderly
pub mod Waiting
pub mod Drawing
pub mod Existing
pub mod IntervalLemmas
pub mod LaneLemmas
