pub mod Callers
pub mod Monitors
pub mod Tables
pub mod Handles
pub mod Ownership
pub mod Slots
