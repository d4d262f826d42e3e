pub mod Fault
pub mod Memory
pub mod Program
pub mod Status
pub mod Told
pub mod Writing
