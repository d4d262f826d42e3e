pub mod Leading
pub mod Layering
pub mod Adding
pub mod Blocking
pub mod Joining
