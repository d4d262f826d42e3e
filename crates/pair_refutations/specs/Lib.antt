pub mod Moves
pub mod Closed
pub mod Fault
pub mod Laws
pub mod Tabled
