pub mod Sketch
pub mod Drawing
pub mod Laws
pub mod Intervals
