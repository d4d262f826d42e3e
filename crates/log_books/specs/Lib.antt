pub mod Refusal
pub mod Keys
pub mod Words
pub mod Calls
pub mod Lines
pub mod Parts
