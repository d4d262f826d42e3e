pub mod Ahead
pub mod Windowed
