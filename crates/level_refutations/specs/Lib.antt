pub mod Said
pub mod Closed
pub mod Fault
pub mod Stored
pub mod Laws
