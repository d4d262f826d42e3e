pub mod FaultNumber
pub mod Refusals
pub mod Models
