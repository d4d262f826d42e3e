pub mod Refuting
pub mod Closing
