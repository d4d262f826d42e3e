pub mod Description
pub mod Reached
pub mod Meaning
pub mod Known
pub mod Placing
pub mod LateOnes
pub mod Laws
pub mod Writes
