pub mod Fault
pub mod Standing
pub mod Laws
