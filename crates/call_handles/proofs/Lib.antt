pub mod Watched
pub mod Values
pub mod Loosened
pub mod Sorts
