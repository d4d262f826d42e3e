pub mod Peeks
pub mod Words
pub mod Known
pub mod Filling
pub mod Exact
pub mod Gathered
