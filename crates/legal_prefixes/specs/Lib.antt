pub mod Prefixes
pub mod Layers
pub mod Longest
pub mod Texts
