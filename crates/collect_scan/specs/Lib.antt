pub mod Scanned
pub mod Turns
pub mod Given
